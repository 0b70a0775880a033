mod Cited
mod Holding
mod Answering
mod Scripts
