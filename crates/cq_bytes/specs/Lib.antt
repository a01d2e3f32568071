pub mod Field
pub mod FieldLemmas
pub mod Numbers
pub mod Texts
