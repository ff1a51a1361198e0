pub mod SessionTable
