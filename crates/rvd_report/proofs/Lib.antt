pub mod StepLines
mod HistoryRows
