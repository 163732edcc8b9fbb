-- Laws of blocks direction by direction.
pub mod PassLaws
pub mod ExchangeLaws
pub mod OrderLaws
