pub mod MovedNodes
