mod Logs
mod Ends
mod Batches
