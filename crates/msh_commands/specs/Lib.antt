pub mod CommandTalks
