pub mod Puts
pub mod Forwarding
pub mod Cutting
pub mod Framed
pub mod FrameByFrame
