pub mod Known
pub mod Sending
pub mod KindLemmas
pub mod JudgedRows
pub mod Written
pub mod MemberLemmas
