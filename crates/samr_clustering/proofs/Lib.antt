mod Apart
mod Begun
mod First
mod Turning
