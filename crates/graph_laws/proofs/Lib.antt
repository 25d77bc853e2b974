pub mod KernelsFit
