pub mod Faults
pub mod Counts
pub mod Folder
pub mod Shelf
pub mod Sink
pub mod MemoryShelf
pub mod MemorySink
pub mod StreamSink
