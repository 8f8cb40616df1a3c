pub mod FilledLaws
