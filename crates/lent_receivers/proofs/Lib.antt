-- Laws of the definitions in specs/.
pub mod ReceiverLaws
pub mod RowLaws
