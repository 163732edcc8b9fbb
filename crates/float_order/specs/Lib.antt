-- Binary32 floats as whole numbers of their smallest unit, their keys, whole numbers among them, and lists of them.
pub mod Order
pub mod Whole
pub mod Fit
