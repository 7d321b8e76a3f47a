-- Filing a record, step by step; what is decided on a request; turns of the program, and runs of them; what the first frame of the log says of the settings.
pub mod Carrying
pub mod Deciding
pub mod Turning
pub mod Opening
