pub mod Printed
pub mod Safety
pub mod Stream
pub mod Next
pub mod Play
pub mod Ports
pub mod RoundTrip
