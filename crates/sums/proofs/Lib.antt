pub mod SumTests
