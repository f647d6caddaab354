pub mod Places
pub mod ProductAnswers
pub mod SiteAnswers
