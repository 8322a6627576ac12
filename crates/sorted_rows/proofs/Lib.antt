pub mod RowChange
pub mod Rising
pub mod RowLaws
pub mod RowMemory
pub mod MadeRows
pub mod LinkChange
pub mod Memory
