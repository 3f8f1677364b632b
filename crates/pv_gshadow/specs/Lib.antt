pub mod GroupPasswords
