pub mod CallKinds
pub mod KnownWords
pub mod Numbers
pub mod InStep
pub mod EachLine
pub mod OneRecord
pub mod Rows
