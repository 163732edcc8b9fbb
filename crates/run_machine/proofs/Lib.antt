-- Theorems about whole runs: the flat machine and nested loops, plans, the sample run, and demand 3.
pub mod SampleLaws
pub mod ExampleLaws
pub mod PassLaws
pub mod IterationLaws
pub mod CourseLaws
pub mod AskedLaws
pub mod KeptLaws
pub mod PlanLaws
pub mod BoundLaws
pub mod SameLaws
pub mod SoundLaws
pub mod CutLaws
pub mod DrainedLaws
pub mod Demand3Laws
