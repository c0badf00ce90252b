pub mod SevenCases
