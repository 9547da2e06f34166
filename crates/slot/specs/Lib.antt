pub mod Logic
pub mod Layout
pub mod Fit
pub mod Logs
pub mod Operations
pub mod Fields
