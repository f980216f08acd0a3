pub mod Untraced
