pub mod BothLogs
