pub mod Forward
pub mod ExitText
pub mod WhyNot
pub mod Lines
