mod Disks
mod Paths
mod Searching
mod Showing
mod Tables
mod Telling
