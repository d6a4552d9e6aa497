mod Locality
mod Waking
mod Fitting
