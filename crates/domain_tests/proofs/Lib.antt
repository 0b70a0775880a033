mod Cited
mod Published
