-- Laws of a routing and the incision along it.
pub mod RoutedLaws
pub mod CarveLaws
