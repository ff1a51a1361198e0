pub mod PlainText
pub mod ScriptSessions
pub mod SessionSteps
pub mod Stages
