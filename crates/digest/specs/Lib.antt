-- The definitions that the contracts cite: MD5 and the request digest, the code's own steps, and RFC 1321's vectors.
pub mod Md5
pub mod Turn
pub mod Vectors
