pub mod RowTests
