pub mod ScriptText
pub mod Summary
pub mod MadeProgram
pub mod ShownFaults
