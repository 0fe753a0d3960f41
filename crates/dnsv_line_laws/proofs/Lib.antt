mod Meaning
mod OneLine
mod Reading
mod Texts
mod Types
mod parts
mod told
