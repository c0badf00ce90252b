pub mod ShiftLemmas
pub mod QuadLemmas
