-- A whole run over a store: its start, what it is answered on its way, and its end.
pub mod Turning
pub mod Told
pub mod Starts
pub mod Ends
pub mod FourRuns
