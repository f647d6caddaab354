pub mod KindReadingLaws
