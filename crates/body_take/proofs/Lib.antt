pub mod OneTaken
