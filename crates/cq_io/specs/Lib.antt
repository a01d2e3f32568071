pub mod Streams
pub mod Status
pub mod Planned
pub mod Folders
pub mod FolderLaws
pub mod OneFolder
