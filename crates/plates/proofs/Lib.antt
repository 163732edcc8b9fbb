-- The plates of document 01, and the examples of document 02.
pub mod PlateLaws
pub mod ExampleLaws
