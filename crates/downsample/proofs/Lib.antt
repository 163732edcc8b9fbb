-- Laws of the definitions in specs/, and each way out of `downsample`.
pub mod FirstsLaws
pub mod DownsampleLaws
