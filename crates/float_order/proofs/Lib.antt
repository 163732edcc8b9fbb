-- Laws of the definitions in specs/.
pub mod ValueLaws
pub mod SizeLaws
pub mod OrderLaws
pub mod RankLaws
pub mod KeyLaws
pub mod WholeLaws
pub mod FitLaws
