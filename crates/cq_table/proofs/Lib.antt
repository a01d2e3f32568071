pub mod ByFile
