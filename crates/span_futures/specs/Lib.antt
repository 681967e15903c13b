pub mod Instrumented
