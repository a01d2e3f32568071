pub mod Lacking
