pub mod Phases
pub mod Scenes
pub mod SessionTurns
pub mod Sessions
pub mod Standing
pub mod Texts
