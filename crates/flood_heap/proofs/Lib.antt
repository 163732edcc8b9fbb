-- Laws of the heap.
pub mod HeapLaws
pub mod RoomLaws
