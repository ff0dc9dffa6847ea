mod Steps
mod Glancing
