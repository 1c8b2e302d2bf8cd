pub mod Drawing
pub mod Wakeful
