pub mod StrictOrder
