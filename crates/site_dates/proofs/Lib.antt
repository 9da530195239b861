pub mod DayNumbers
