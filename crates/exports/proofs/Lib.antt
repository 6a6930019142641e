mod Carried
mod Meant
