pub mod CountSteps
pub mod JoinedWords
mod ReplyRows
