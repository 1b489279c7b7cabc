-- The words of the contracts: faults that are counted, bytes that go over, sources and sinks over memory and over std.
pub mod Faults
pub mod Taking
pub mod Memory
pub mod Outside
pub mod Reading
