-- Laws of receivers.
pub mod ReceiverLaws
