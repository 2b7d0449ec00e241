pub mod FewAnswers
pub mod JobReports
pub mod JobLists
pub mod ReportLists
