pub mod NodeTree
